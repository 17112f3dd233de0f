-- Theorems and examples.
pub mod Tables
pub mod Examples
pub mod RoundTrip
pub mod LengthLaws
pub mod TextLaws
pub mod FaultLaws
pub mod OutcomeLaws
pub mod AlphabetLaws
pub mod GroupLaws
pub mod StrictGroups
pub mod Listed
pub mod Grouping
pub mod Searches
