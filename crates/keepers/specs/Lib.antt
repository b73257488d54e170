pub use Rattle.outside.specs.CallsState
pub use Rattle.outside.specs.Held
pub use Rattle.journal.specs.Journal
pub mod KeeperCalls
pub mod KeeperNoted
pub mod KeeperState
pub mod Listing
pub mod MemoryKeeperState
