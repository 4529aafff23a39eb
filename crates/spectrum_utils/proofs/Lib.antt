pub mod Counted
pub mod RowInFront
pub mod Spectrum
pub mod Finite
pub mod Zipped
pub mod Places
