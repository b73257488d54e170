pub mod Failures
pub mod Firsts
pub mod Functions
pub mod Gives
pub mod InRange
pub mod Nexts
pub mod Over
pub mod Places
pub mod StmtArms
pub mod StmtLists
pub mod Suits
pub mod Sequences
pub mod Units
pub mod ValueLists
mod Worked
