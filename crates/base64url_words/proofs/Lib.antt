-- Laws that the functions' proofs cite.
pub mod SignLaws
pub mod WordLaws
pub mod WideLaws
