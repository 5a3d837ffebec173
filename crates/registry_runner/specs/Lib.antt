pub mod Parts
pub mod Interpreters
pub mod Plays
pub mod PartLines
pub mod Running
pub mod Folding
