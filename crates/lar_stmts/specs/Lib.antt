pub mod States
pub mod Stmts
pub mod Targets
