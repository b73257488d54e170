pub mod Indexed
pub mod Ordered
pub mod Same
