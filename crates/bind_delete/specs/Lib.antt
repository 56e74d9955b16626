pub mod Within
pub mod Deletes
