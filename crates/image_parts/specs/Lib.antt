pub mod Layout
pub mod Shapes
pub mod NamesHeld
