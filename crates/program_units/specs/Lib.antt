pub mod Collected
pub mod Placing
pub mod Units
