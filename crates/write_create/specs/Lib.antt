pub mod Parts
pub mod Given
