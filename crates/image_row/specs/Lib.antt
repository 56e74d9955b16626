pub mod Layout
pub mod Obeyed
