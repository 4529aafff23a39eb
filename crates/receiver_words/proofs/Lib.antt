pub mod ClockBack
pub mod ReadBack
