-- Theorems and examples.
pub mod Promises
pub mod Naming
pub mod Sides
pub mod Starred
pub mod Inhabited
pub mod Witnesses
pub mod SegmentLaws
pub mod TokenLaws
pub mod RuleLaws
pub mod AcceptedLaws
