-- Laws for the code's proofs.
pub mod HeaderLaws
