pub mod Assigning
pub mod Declaring
pub mod Made
pub mod Places
pub mod Returning
pub mod Told
