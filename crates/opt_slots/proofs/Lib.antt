pub mod Ahead
pub mod Kept
pub mod Loaded
pub mod Mapped
pub mod Pushed
pub mod Slots
pub mod Written
