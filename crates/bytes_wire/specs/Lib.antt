pub mod Le
pub mod Sets
