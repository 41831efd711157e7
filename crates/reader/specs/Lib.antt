pub mod Round
pub mod Answers
