pub mod StateQuestions
pub mod CallLaws
pub mod SideCalls
pub mod Lending
pub mod RowLending
pub mod Reading
pub mod Closing
pub mod AnswerNumbers
