pub mod Laws
pub mod Formats
pub mod Sums
pub mod NodeLaws
pub mod Run
pub mod Cases
