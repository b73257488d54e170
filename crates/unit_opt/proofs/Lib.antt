pub mod FoldInRange
pub mod Folds
pub mod Kept
pub mod Lists
