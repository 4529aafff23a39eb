pub mod Smoothing
pub mod Adaptive
pub mod CountsHeld
