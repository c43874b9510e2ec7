pub mod Keeps
pub mod Wardens
pub mod Offices
