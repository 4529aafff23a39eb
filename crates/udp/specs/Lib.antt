pub mod Requires
pub mod Views
