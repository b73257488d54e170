pub mod Dropped
mod Examples
pub mod InRange
