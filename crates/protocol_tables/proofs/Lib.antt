pub mod Within
pub mod TableCases
pub mod Orders
pub mod Refines
pub mod Numbers
pub mod Room
pub mod Lifts
pub mod Runs
