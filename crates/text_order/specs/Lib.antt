pub mod Sorted
pub mod TextOrder
