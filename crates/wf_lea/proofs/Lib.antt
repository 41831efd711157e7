pub mod MessageLaws
pub mod RowLaws
pub mod Vectors
