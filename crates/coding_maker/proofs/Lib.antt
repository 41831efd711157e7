pub mod CodingDrawn
pub mod CodingTheorem
pub mod DrawCounts
pub mod NumberLaws
pub mod DrawTurns
pub mod SourceLaws
pub mod Example
