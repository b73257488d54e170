pub mod ReadingLemmas
pub mod JobLemmas
pub mod ViewLemmas
pub mod RestLemmas
pub mod DeskMoves
pub mod LeaseMoves
pub mod Known
