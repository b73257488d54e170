pub mod Dots
pub mod Forming
pub mod Levels
pub mod Widths
