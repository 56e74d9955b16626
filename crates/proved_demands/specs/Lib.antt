pub mod Demand
pub mod Answered
pub mod Zero
pub mod Proved
pub mod Once
pub mod Hex
pub mod Worked
