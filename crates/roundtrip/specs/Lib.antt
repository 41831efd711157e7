pub mod Roundtrips
pub mod Steps
