-- Laws that the functions' proofs cite.
pub mod RefusalLaws
pub mod DecodeLaws
pub mod RestLaws
