pub mod Rules
pub mod Compared
pub mod Ranges
