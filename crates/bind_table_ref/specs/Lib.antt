pub mod Small
pub mod Room
