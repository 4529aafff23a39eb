pub mod WordLaws
pub mod Pieces
