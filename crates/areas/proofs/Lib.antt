pub mod Placed
pub mod PutBack
