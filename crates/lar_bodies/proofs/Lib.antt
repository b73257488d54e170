pub mod Blocks
pub mod Endings
pub mod Entries
pub mod Forks
pub mod Kept
pub mod Lists
pub mod Views
pub mod Whole
