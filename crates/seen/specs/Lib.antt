pub mod SeenWord
pub mod Examples
