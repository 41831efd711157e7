pub mod TurnSums
pub mod ScheduleLaws
pub mod Schedule32
