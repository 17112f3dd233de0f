-- What the code answers, in the words of `base64url_rules`.
pub mod Answers
