pub mod Begun
pub mod Longest
pub mod Meanings
