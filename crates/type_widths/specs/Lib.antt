pub mod Form
pub mod Level
pub mod Width
