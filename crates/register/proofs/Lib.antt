pub mod Counting
pub mod Put
pub mod Notes
pub mod Picks
pub mod Grows
pub mod Keeps
pub mod Stands
pub mod Moves
