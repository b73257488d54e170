pub mod Linkable
pub mod UnitsImage
