pub mod Format
pub mod Ways
pub mod Nodes
