pub mod Views
pub mod Standings
pub mod Desks
pub mod Readers
