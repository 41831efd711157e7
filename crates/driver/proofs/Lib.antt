pub mod PassLaws
pub mod AdmitLaws
pub mod AnswerLaws
pub mod SealLaws
pub mod SessionLaws
