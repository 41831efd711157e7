pub mod BitLaws
pub mod SeenLaws
pub mod Example
