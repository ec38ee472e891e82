pub mod Given
pub mod View
pub mod Reads
pub mod Fixed
pub mod Leaves
pub mod Inclusions
