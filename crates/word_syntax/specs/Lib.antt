pub mod Parts
pub mod HexBytes
pub mod Reads
