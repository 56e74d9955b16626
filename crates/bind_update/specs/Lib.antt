pub mod Columns
pub mod Targets
pub mod Assigned
pub mod Within
pub mod Updated
