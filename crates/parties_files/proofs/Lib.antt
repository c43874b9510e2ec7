pub mod WardenReplays
pub mod OfficeReplays
pub mod Each
pub mod OfficeSteps
pub mod WardenPromises
pub mod OfficePromises
