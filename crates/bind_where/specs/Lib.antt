pub mod Fits
pub mod Short
pub mod There
pub mod Filters
