pub mod Answering
pub mod Digits
pub mod Splitting
