-- The number of the member after a given one, and how many members a header has.
pub mod Following
pub mod Counting
pub mod CountLaws
