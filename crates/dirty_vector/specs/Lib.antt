pub mod Marks
pub mod Pages
pub mod Changes
pub mod MarkWords
