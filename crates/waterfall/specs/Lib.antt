pub mod Requires
pub mod Shown
