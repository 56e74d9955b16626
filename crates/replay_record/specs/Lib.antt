pub mod Layout
pub mod Cases
pub mod Agrees
pub mod Counts
pub mod Counting
