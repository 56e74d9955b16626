pub mod Works
pub mod Short
