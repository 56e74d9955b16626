pub mod Told
pub mod Room
pub mod Steps
pub mod Short
pub mod Tables
pub mod Given
