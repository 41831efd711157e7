pub mod ReadingLaws
pub mod Columns
pub mod SumLaws
pub mod TurnLaws
pub mod FoldLaws
pub mod Typed
pub mod RoundLaws
pub mod FrontLaws
