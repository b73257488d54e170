pub mod CodeLines
pub mod Numbered
