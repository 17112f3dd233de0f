-- What the inner functions answer: how a token is made.
pub mod Written
