pub mod Given
pub mod Members
pub mod Names
pub mod Sites
pub mod Standing
