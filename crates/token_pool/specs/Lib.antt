pub mod Pool
pub mod View
pub mod Rule
pub mod Steps
pub mod Memory
pub mod Faulty
