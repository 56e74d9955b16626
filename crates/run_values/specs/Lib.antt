pub mod Worths
pub mod Orders
pub mod Rules
