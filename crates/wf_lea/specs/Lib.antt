pub mod WfLea
pub mod Vectors
