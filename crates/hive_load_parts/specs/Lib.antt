pub mod CellReads
pub mod Nodes
pub mod PartsOfKey
pub mod Descriptors
pub mod Bits
