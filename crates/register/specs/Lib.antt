pub mod Count
pub mod Note
pub mod Rule
pub mod Model
pub mod Promise
pub mod Progress
