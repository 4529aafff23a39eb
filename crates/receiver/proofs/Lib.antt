pub mod ClockCalls
pub mod SettingCalls
pub mod PlayCalls
