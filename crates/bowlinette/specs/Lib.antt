pub mod Into
pub mod Session
pub mod Records
pub mod Ink
