pub mod Limits
pub mod Answers
pub mod Nodes
pub mod Roots
