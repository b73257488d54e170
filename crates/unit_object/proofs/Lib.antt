pub mod Answered
pub mod Faults
pub mod Kept
pub mod Shown
pub mod Worked
