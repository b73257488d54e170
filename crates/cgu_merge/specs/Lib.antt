pub mod Merging
pub mod Ranked
