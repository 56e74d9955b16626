pub mod Entry
pub mod Told
pub mod Received
