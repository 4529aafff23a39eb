pub mod Acting
pub mod Printing
