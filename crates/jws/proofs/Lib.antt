-- Laws that the functions' proofs cite: of a token's judgement; of the buffers that are cleared.
pub mod JudgeLaws
pub mod ClearLaws
