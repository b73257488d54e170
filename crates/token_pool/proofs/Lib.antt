pub mod Moves
pub mod Known
pub mod Draining
pub mod Failing
