pub mod Parties
pub mod Ways
pub mod Seeds
pub mod Words
pub mod Casts
pub mod Scenes
