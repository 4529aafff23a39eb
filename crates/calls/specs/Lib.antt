pub mod Views
pub mod Refusals
pub mod Sides
