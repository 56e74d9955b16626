pub mod Found
pub mod Signs
pub mod Binds
pub mod Leaves
pub mod Rows
pub mod Writes
pub mod Fine
pub mod Counts
