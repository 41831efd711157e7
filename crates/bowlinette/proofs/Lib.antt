pub mod IntoLaws
pub mod RecordLaws
pub mod RecordTheorem
