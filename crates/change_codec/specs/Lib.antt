pub mod Readers
pub mod Encoding
pub mod Changes
pub mod ChangeBytes
pub mod Examples
pub mod ModelChanges
