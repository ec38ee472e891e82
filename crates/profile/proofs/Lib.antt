pub mod Giving
pub mod Wholes
pub mod Telling
pub mod Shaping
pub mod Prefixing
pub mod Fixing
