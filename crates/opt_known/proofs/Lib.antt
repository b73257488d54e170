pub mod Changed
mod Examples
pub mod Forgotten
pub mod InRange
pub mod Times
pub mod Turns
