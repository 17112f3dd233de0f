-- Theorems and examples.
pub mod FirstLaws
pub mod Decided
pub mod SameLaws
