pub mod Lengths
pub mod Tables
pub mod Chain
pub mod Book
pub mod Shown
pub mod LikeSealing
