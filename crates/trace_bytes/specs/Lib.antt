pub mod Groups
pub mod Bytes
pub mod BytesRanged
