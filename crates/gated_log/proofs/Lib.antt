pub mod LogBytes
pub mod LogSteps
