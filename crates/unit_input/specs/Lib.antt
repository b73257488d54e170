pub mod Assertions
pub mod Exprs
pub mod InputView
pub mod Inputs
pub mod Rules
pub mod Spelling
pub mod Stmts
pub mod Widths
