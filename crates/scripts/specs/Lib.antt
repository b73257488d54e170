pub mod Script
pub mod Outside
pub mod Following
pub mod Performing
pub mod History
