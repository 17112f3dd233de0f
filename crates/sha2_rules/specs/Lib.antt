-- SHA-2. What a reader believes: the words, what tells the hashes apart, the compression of a block, and the hash of a message.
pub mod Words
pub mod Parameters
pub mod Compression
pub mod Hash
-- The schedules of eight blocks side by side.
pub mod Woven
