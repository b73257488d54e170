pub mod Parsed
pub mod Reads
pub mod ReadsExprs
pub mod ReadsItems
pub mod ReadsStmts
