pub mod Homes
pub mod Symbols
pub mod Units
