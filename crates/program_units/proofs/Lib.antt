pub mod Apart
pub mod Called
pub mod Collected
pub mod Examples
pub mod Items
pub mod Led
pub mod Placed
pub mod Symbols
