-- The answers of the base64url functions as words.
pub mod Words
