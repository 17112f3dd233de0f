-- Laws for the code's proofs.
pub mod KnownRules
pub mod FormatLaws
pub mod KeyRules
