pub mod ContentsKept
pub mod ExprEquations
pub mod ExprParts
pub mod ExprsKept
pub mod Falling
pub mod SameTypes
pub mod StmtParts
pub mod StmtsKept
