pub mod Promises
pub mod Through
pub mod Pieces
