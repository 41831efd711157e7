pub mod PaddingLaws
pub mod HashLaws
pub mod DigestLaws
pub mod Vectors
