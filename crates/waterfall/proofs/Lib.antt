pub mod Drawn
pub mod Reached
pub mod Rows
