pub mod Places
pub mod ChainValid
pub mod ChainDecided
pub mod ChainReached
pub mod ChainTurns
pub mod MakeAnswers
pub mod MakerTheorem
pub mod Example
