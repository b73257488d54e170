pub use Rattle.outside.specs.CallsState
pub use Rattle.outside.specs.Held
pub use Rattle.journal.specs.Counted
pub use Rattle.journal.specs.Journal
pub mod FilesState
pub mod MemoryFilesState
