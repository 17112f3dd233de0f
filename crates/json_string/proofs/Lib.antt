-- Laws for the code's proofs.
pub mod TextPaths
pub mod OctetLaws
pub mod WriteLaws
