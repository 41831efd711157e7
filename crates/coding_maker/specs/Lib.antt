pub mod Draw
pub mod Numbers
pub mod Parts
pub mod Laws
pub mod Examples
pub mod Source
