mod EntryFacts
mod IndexFacts
mod Looks
pub mod MeantFacts
mod Numbers
mod ReadFacts
mod Sameness
mod ScopeFacts
mod WalkFacts
mod PathFacts
