pub mod Doings
pub mod Facts
pub mod Parts
pub mod Forms
