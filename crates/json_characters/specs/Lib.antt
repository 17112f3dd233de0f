-- Characters of a JSON text, by place, and their octets.
pub mod Places
pub mod Characters
pub mod Utf8
pub mod Utf8Laws
pub mod CharacterLaws
pub mod Steps
pub mod Octets
