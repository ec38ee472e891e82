pub mod Views
pub mod Chains
pub mod Sounds
pub mod Readings
pub mod Bridge
pub mod Listed
pub mod Flats
pub mod Columns
