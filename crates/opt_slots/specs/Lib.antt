pub mod Loads
pub mod Slots
pub mod Writes
