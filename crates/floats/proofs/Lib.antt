pub mod Doubling
pub mod HalfUp
pub mod LeadingDigits
pub mod Narrow
pub mod Saturate
pub mod Sign
pub mod WholePart
pub mod WholeStays
