pub mod Format
pub mod Journal
pub mod Views
pub mod Fronts
pub mod Room
