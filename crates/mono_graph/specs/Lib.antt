pub mod Graphs
pub mod Instances
pub mod Reading
