pub mod Faults
pub mod FirstTokens
pub mod KindsOf
pub mod LawfulTrees
pub mod ListPlaces
pub mod MarkedTokens
pub mod Onwards
mod SpelledForms
pub mod TreeSizes
mod Worked
