pub mod MacLaws
pub mod OpenLaws
pub mod PaddingLaws
pub mod CheckLaws
pub mod AnswerLaws
pub mod OpenedLaws
