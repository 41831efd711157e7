pub mod Mac
pub mod Blocks
pub mod Archive
pub mod Opened
