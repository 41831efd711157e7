pub mod TextLaws
pub mod RoundLaws
pub mod AnswerLaws
pub mod RoundMeaning
pub mod LaterBytes
pub mod Example
pub mod RefusalOrder
