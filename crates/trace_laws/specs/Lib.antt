pub mod Writing
pub mod Spelling
pub mod ByteLaws
pub mod TextLaws
pub mod TableLaws
