pub mod Arms
pub mod Collected
pub mod Growing
pub mod ListArms
pub mod Parts
pub mod Views
