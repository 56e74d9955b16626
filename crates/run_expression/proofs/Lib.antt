pub mod Arms
pub mod Stored
pub mod Looked
pub mod Places
pub mod Steps
