pub mod Building
pub mod BigEndian
pub mod Wrapped
