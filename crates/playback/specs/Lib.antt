pub mod Steps
pub mod Chains
