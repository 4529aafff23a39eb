pub mod Chains
pub mod Histories
