-- Laws for the code's proofs.
pub mod CycleLaws
pub mod TextLaws
