mod Looks
mod Counted
pub mod Lawful
