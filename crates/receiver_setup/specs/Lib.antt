pub mod Promises
pub mod Setup
