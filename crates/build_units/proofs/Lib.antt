mod FileNames
mod Refusals
