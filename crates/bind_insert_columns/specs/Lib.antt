pub mod Coded
pub mod Grown
pub mod Small
pub mod Columns
