pub mod PadLaws
pub mod CodedPartLaws
pub mod TextLaws
pub mod AnswerLaws
pub mod CodeLaws
