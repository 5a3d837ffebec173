pub mod Telling
pub mod Cells
pub mod Turns
