-- The known members as the code holds them, and what is said of them.
pub mod Known
pub mod Says
pub mod KnownLaws
