pub mod TurnLaws
pub mod RoundLaws
pub mod FrontLaws
pub mod BlockLoops
pub mod AnswerLaws
