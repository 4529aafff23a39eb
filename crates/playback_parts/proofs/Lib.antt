pub mod Texts
pub mod Streams
pub mod PartLaws
pub mod FormLaws
