pub mod Windows
pub mod Promises
pub mod Through
