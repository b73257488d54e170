pub mod Front
pub mod Parsed
