pub mod Moved
pub mod HiveFileKinds
pub mod Stepped
