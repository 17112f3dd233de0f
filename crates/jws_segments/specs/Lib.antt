-- What the functions answer: where the periods stand, and what the segments hold; and laws of both.
pub mod Split
pub mod SplitLaws
pub mod Opening
pub mod OpenLaws
