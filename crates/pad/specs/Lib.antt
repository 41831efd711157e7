pub mod Padding
pub mod CodedParts
pub mod Answers
