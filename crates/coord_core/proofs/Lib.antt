pub mod Jobs
pub mod Acted
pub mod Told
pub mod Sound
pub mod Hand
pub mod Order
pub mod Bar
pub mod Cover
pub mod Bag
pub mod Budget
pub mod Ordered
pub mod Places
pub mod Stages
pub mod Continued
mod Worked
