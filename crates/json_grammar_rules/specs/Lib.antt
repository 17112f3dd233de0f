-- The JSON header. Definitions: its grammar, readings and places; a reader on lists, and a scan for names twice.
pub mod Bytes
pub mod Value
pub mod Twice
pub mod Grammar
pub mod Places
pub mod Shown
pub mod Reader
pub mod Levels
pub mod Scan
