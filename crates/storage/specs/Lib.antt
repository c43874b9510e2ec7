pub mod Conditions
pub mod Changes
pub mod Memories
