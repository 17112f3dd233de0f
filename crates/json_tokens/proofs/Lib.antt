-- Laws for the code's proofs.
pub mod SkipLaws
pub mod NumberLaws
