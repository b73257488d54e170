pub mod FunctionFacts
pub mod PartFacts
pub mod ProgramFacts
