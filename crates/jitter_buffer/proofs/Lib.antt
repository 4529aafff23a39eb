pub mod Places
pub mod FillLoop
pub mod FillView
pub mod Turns
pub mod FillTurns
pub mod AfterFill
pub mod HeldKept
pub mod Amounts
