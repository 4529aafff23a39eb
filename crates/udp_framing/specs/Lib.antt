pub mod Promises
pub mod StreamTypes
pub mod Views
