pub mod Windows
pub mod Known
