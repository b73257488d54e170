pub mod Commands
pub mod Lines
pub mod Numbers
pub mod Reads
pub mod Recipes
pub mod Sorting
pub mod Sources
