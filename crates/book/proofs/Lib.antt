pub mod BuildLaws
pub mod GroupLaws
pub mod AnswerLaws
pub mod WholeLaws
