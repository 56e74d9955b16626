pub mod Shapes
pub mod Held
