pub mod WindowSteps
pub mod Moving
pub mod Pieces
pub mod WindowedReplay
pub mod ToTheEnd
