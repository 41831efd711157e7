pub mod ReadingTableMade
pub mod ReadingWhole
pub mod ReadingChainRefusals
