pub mod Arms
pub mod Known
pub mod Contents
pub mod Steps
pub mod Whole
