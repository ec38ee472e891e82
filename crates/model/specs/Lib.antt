pub mod Positions
pub mod Summaries
pub mod Trees
pub mod Limits
