pub mod Given
pub mod Room
pub mod Assign
pub mod Turns
pub mod Whole
