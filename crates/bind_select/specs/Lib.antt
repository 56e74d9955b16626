pub mod Within
pub mod Columns
pub mod Entries
pub mod Selects
