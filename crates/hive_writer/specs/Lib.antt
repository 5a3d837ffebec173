pub mod HiveFileKinds
pub mod WriterSteps
