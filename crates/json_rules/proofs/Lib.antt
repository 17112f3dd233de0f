-- Theorems and examples.
pub mod AnswerLaws
pub mod Promises
pub mod Demand3
pub mod Rows
pub mod ShownLaws
