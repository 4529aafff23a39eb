pub mod PlayView
pub mod Plays
