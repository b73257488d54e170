pub mod Facts
pub mod Known
pub mod Table
pub mod Walked
