-- Theorems and examples.
pub mod OnlyOne
pub mod FactLaws
pub mod CriticalLaws
pub mod ChoosingLaws
pub mod UnknownMembers
pub mod HeaderLaws
pub mod NamingLaws
pub mod DecisionLaws
pub mod Promises
pub mod Examples
pub mod HeaderExamples
