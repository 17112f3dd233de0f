-- What the walk to member k picks.
pub mod Picks
