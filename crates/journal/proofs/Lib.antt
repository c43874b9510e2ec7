pub mod Scans
pub mod Loads
pub mod Cuts
pub mod Ends
pub mod Copies
