pub mod Counted
pub mod FaultPlace
pub mod Interface
pub mod UnitObject
