pub mod Depth
pub mod Index
pub mod Lawful
pub mod Memo
pub mod Rows
pub mod Substitution
pub mod TypeOf
