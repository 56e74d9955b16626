pub mod Within
pub mod Kinds
pub mod Dispatch
