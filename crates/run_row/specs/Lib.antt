pub mod Turns
pub mod Updates
