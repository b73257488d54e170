pub mod NameOrder
pub mod Names
pub mod Placing
pub mod Written
