pub mod Parts
pub mod Written
