pub mod Tabulation
pub mod Blocks
pub mod Overlay
pub mod HalfBytes
pub mod Refusals
pub mod Every
