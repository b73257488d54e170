pub mod Defined
pub mod Homes
pub mod Needed
pub mod Unrefused
pub mod Worked
