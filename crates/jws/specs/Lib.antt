-- What the inner functions answer: how a token is judged.
pub mod Judging
