pub mod Digits
pub mod Text
pub mod Round
pub mod Example
