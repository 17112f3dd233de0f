-- Laws for the code's proofs.
pub mod MarkLaws
pub mod StackLaws
pub mod NameLaws
pub mod TextLaws
