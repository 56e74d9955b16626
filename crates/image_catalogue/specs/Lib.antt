pub mod Layout
pub mod Shapes
pub mod Values
pub mod Entries
