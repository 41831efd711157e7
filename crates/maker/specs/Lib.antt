pub mod Plan
pub mod Planned
pub mod MadeChain
pub mod Answers
pub mod Laws
pub mod Examples
