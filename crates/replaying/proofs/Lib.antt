pub mod Plays
pub mod Begun
