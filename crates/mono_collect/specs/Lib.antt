pub mod Arguments
pub mod Bodies
pub mod Places
pub mod Roots
pub mod States
