pub mod Cutting
pub mod WordSteps
pub mod Making
pub mod LineSteps
pub mod TextSteps
pub mod Stepping
pub mod Placing
