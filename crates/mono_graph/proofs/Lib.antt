pub mod Calls
pub mod LawfulCalls
pub mod Read
pub mod RootPlaces
pub mod Sized
