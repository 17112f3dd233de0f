-- Base64url. What a reader believes: the alphabet, texts and bytes.
pub mod Alphabet
pub mod Base64url
-- Faults, what the two functions answer, and their tables: what the contracts cite.
pub mod Fault
pub mod Outcome
