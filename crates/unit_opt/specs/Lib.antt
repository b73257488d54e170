pub mod Fold
pub mod Lists
pub mod Optimised
