pub mod Replays
pub mod Openings
