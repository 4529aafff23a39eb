pub mod HandedOver
pub mod Places
