pub mod Within
pub mod Inserts
