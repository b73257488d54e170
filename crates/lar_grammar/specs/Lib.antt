pub mod Looks
pub mod Machine
pub mod Moves
pub mod Symbols
pub mod Unplaced
