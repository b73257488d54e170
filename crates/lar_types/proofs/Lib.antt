mod BodyFacts
mod DepthFacts
mod FunctionFacts
mod MainFacts
mod NameFacts
