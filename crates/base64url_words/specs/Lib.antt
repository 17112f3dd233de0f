-- What the functions ensure, in the words of `base64url_rules`.
pub mod Words
