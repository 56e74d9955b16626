pub mod Found
pub mod Finds
