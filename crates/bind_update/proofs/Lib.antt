pub mod Assigning
pub mod Turns
