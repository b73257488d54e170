pub mod Changed
pub mod Copies
mod Examples
pub mod InRange
pub mod Raised
pub mod Turns
