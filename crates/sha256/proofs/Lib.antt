-- What the proofs share.
pub mod Chunks
pub mod Bytes
