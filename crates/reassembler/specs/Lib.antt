pub mod Requires
pub mod Rows
