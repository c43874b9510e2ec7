pub mod Disk
pub mod Records
pub mod Nodes
pub mod System
pub mod Durable
pub mod Runs
pub mod Cases
pub mod Progress
