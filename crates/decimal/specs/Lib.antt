-- The value of digits within a bound.
pub mod Magnitude
