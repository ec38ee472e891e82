pub mod Measures
pub mod Sums
pub mod Pairs
pub mod Joins
pub mod Lawful
