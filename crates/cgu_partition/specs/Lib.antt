pub mod Buckets
pub mod Owners
pub mod Placed
