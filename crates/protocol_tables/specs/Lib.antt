pub mod Keep
pub mod Warden
pub mod Office
pub mod System
pub mod Progress
pub mod Runs
pub mod Readers
