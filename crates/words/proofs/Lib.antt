mod Apps
mod Rows
mod Sorted
mod Turns
mod Walks
mod Whole
