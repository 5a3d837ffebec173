pub mod KeyRows
pub mod KeyPaths
pub mod SubtreeRows
