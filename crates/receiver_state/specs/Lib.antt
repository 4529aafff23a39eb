pub mod View
pub mod Fields
pub mod Fresh
pub mod Promises
pub mod Readings
pub mod Report
