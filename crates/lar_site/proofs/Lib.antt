mod ByNumber
mod CallFacts
mod MeantFacts
mod Members
mod Names
mod UseFacts
