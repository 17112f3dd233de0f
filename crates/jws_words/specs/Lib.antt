-- The answers as words, for callers in C and Rust.
pub mod Words
-- What holds of them after a refusal.
pub mod Promises
