pub mod Commits
pub mod Wardens
pub mod Offices
pub mod Promises
