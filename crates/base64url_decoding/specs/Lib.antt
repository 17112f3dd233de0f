-- What the code answers, in the words of `base64url_rules`; and what the inner functions ensure.
pub mod Answers
pub mod Writing
