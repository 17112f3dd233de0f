-- Theorems and examples.
pub mod Examples
pub mod ListLaws
pub mod WordLaws
pub mod ScheduleLaws
pub mod RoundLaws
pub mod WovenLaws
pub mod BlockLaws
pub mod DigestLaws
pub mod PaddingLaws
pub mod PaddedLaws
pub mod ValueLaws
pub mod FinishLaws
