-- Laws for the code's proofs.
pub mod SlotFacts
pub mod KeyNames
pub mod SaysLaws
pub mod CriticalNames
pub mod AllFacts
pub mod WalkFrom
