pub mod FloatBytes
pub mod Prefix
pub mod RowStore
pub mod WellFormed
