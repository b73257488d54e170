pub mod Frames
pub mod InOrder
pub mod Items
pub mod Known
pub mod KnownNames
pub mod Sources
