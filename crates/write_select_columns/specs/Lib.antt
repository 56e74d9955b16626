pub mod Laid
pub mod Columns
pub mod Items
