pub mod Folding
pub mod Parts
