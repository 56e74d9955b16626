pub mod Defined
pub mod Keys
pub mod Columns
pub mod Within
pub mod Places
