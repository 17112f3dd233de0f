-- What the functions speak of, and laws for those who call `judge`.
pub mod Judging
pub mod JudgingLaws
