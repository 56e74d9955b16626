pub mod Values
pub mod Rows
pub mod Judging
pub mod Run
pub mod Lengths
pub mod Folding
