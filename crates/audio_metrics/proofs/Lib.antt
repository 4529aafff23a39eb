pub mod Signed
pub mod Probe
pub mod DelayRange
pub mod Readings
pub mod DelayWords
