pub mod Ran
pub mod Zero
