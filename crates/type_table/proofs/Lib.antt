pub mod Grown
pub mod Indexed
pub mod Remembered
pub mod Replaced
pub mod Replacing
pub mod RowKeys
pub mod Views
