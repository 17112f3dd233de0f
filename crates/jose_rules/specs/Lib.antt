-- The header's known members. What a reader believes: names, what members say, the rules 9 to 14; and what a header decides.
pub mod Names
pub mod Members
pub mod Rules
pub mod Header
pub mod Deciding
-- The tests, by what a header says apart from its text; and what the functions answer.
pub mod Verdict
pub mod Facts
pub mod HeaderTests
pub mod Decision
