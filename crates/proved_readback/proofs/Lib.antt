pub mod Fitting
pub mod Bindings
pub mod StatementKinds
pub mod Changes
pub mod Created
pub mod Bind
