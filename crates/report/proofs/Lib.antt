pub mod Apart
pub mod Depths
pub mod Drawn
pub mod Lists
pub mod Sizes
pub mod Sorting
pub mod Starts
pub mod Walk
