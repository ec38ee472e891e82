pub mod GroupSteps
pub mod TakenSteps
pub mod FieldSteps
pub mod RecordSteps
