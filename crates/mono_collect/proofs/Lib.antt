pub mod Itemised
pub mod Large
pub mod OneCall
pub mod OneRow
pub mod Patterns
pub mod Placed
pub mod Rooted
pub mod Walked
