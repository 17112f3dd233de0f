-- Where the readers end in a slice.
pub mod Reads
pub mod ValueLaws
pub mod ReadLaws
