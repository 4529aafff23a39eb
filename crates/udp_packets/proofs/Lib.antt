pub mod Audio
pub mod ChunkHandled
pub mod RowParts
pub mod ShowRow
pub mod Screens
pub mod Asked
pub mod Fresh
