pub mod Asked
pub mod Runs
pub mod Stands
