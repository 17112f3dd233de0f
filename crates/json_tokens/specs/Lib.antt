-- Where tokens end in a slice; and the laws of where readers end.
pub mod Tokens
pub mod EndsLaws
pub mod TokenLaws
