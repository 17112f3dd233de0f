-- What a text has of objects, by place; and names that stand twice, as the search finds them.
pub mod Marks
pub mod Stacks
pub mod Twice
