-- The JSON header: its rules, and what it answers.
pub mod Rules
pub mod Answers
pub mod Shown
pub mod Tests
