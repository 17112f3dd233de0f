-- Compact tokens. What a reader believes: segments, tokens, what a call is lent, the rules, and what the calls give.
pub mod Segments
pub mod Token
pub mod Calls
pub mod Rules
pub mod Outcomes
-- The tests of the rules, and what the code's results stand for: what the contracts cite.
pub mod Results
pub mod Tests
