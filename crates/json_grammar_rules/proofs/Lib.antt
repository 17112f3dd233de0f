-- Theorems and examples.
pub mod TwiceLaws
pub mod ByteLaws
pub mod ReaderLaws
pub mod Sequences
pub mod Written
pub mod CharLaws
pub mod NumberLaws
pub mod Readings
pub mod Complete
pub mod Sound
pub mod Endings
pub mod Fuel
pub mod Unique
pub mod ShownLaws
pub mod ScanLaws
pub mod Spelling
pub mod Examples
