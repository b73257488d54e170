pub mod CallsState
pub mod Counts
pub mod Entries
pub mod Fronts
pub mod Held
