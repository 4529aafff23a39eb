pub mod Runs
pub mod Fields
pub mod WholeList
pub mod OneLine
