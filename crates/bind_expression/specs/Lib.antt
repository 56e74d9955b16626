pub mod Told
pub mod Marks
pub mod Names
pub mod Small
