pub mod OnRow
pub mod Ready
pub mod Rows
