pub mod Repeats
pub mod Entries
pub mod Short
