pub mod Cutting
pub mod WindowLaws
pub mod CallsOnLaws
pub mod CheckLaws
pub mod OpeningLaws
pub mod WholeTape
pub mod Feeding
