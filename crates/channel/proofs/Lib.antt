pub mod Sections
pub mod Asking
pub mod Fresh
pub mod Sound
pub mod Rows
