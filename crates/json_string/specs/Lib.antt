-- Strings of a JSON text, by place.
pub mod Ends
pub mod Strings
pub mod TextLaws
pub mod StringLaws
pub mod WordLaws
pub mod Steps
pub mod Examples
