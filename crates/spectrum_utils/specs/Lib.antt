pub mod Promises
pub mod Levels
pub mod Estimates
