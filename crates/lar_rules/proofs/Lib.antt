pub mod Least
mod Worked
