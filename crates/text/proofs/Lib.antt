pub mod WrittenLaws
pub mod FittedLaws
pub mod DigitLaws
