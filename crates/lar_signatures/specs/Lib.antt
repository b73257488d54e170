pub mod Depths
pub mod EachStands
pub mod Noted
pub mod Signatures
