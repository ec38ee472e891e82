pub mod Few
pub mod Rows
pub mod Printing
