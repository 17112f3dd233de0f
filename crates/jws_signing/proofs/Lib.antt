-- Laws that the functions' proofs cite: of a buffer's front; of a token that is written; of the rules.
pub mod FrontLaws
pub mod WrittenLaws
pub mod SignLaws
