-- Theorems and examples.
pub mod Examples
