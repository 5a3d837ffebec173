pub mod Cells
pub mod Keys
pub mod Findings
pub mod Texts
pub mod Whole
