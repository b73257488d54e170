pub mod Places
pub mod Bodies
pub mod Unit
pub mod Held
pub mod Lawful
