pub mod Reading
pub mod Jobs
pub mod View
pub mod Rule
pub mod Steps
pub mod Desk
pub mod Lease
