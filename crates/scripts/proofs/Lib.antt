pub mod Calm
pub mod Following
pub mod Laws
mod Worked
