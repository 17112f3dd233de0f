-- Theorems and examples.
pub mod KeyLaws
pub mod TableLaws
pub mod GoodKeys
pub mod Examples
