pub mod Readings
pub mod FromStart
pub mod Judging
