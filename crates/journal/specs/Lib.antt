pub mod Counted
pub mod Journal
pub mod Noted
