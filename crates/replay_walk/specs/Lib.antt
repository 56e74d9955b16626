pub mod Differs
pub mod Told
