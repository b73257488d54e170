pub mod CallFaults
pub mod CodeFaults
pub mod CodeLemmas
pub mod Distinct
pub mod Fields
pub mod Images
pub mod Items
pub mod ObjectFields
pub mod Objects
pub mod Opcodes
pub mod Pieces
mod Splits
pub mod SymbolTests
mod WorkedObjects
