pub mod Arms
pub mod Codes
pub mod Mends
pub mod Objects
pub mod StmtArms
pub mod Whole
