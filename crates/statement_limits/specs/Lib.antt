pub mod Gathered
pub mod Within
pub mod Lists
pub mod Joined
pub mod Cases
