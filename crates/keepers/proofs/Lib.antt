pub mod HeldInOrder
mod Walks
