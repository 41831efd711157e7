pub mod ChainLaws
pub mod InvertedLaws
pub mod RowLaws
pub mod MadeLaws
