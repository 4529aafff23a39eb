pub mod AnswerKinds
pub mod Walks
pub mod Written
pub mod Calls
pub mod Replayed
