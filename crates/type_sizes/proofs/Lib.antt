pub mod Measured
pub mod Spelled
pub mod TextLengths
