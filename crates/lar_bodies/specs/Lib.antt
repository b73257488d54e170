pub mod Body
pub mod Walks
