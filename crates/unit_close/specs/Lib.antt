pub mod Measures
pub mod Sight
pub mod Made
pub mod Ready
pub mod States
pub mod Functions
pub mod Items
