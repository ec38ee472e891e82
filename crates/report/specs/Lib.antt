pub mod Answer
pub mod Fault
pub mod Name
pub mod Node
pub mod Order
pub mod Outline
pub mod Size
pub mod Text
