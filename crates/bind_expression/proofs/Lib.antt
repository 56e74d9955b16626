pub mod Arms
pub mod Told
pub mod Looked
pub mod Steps
pub mod Places
