pub mod CellCounts
pub mod KeyCounts
pub mod KeyCountLaws
pub mod Blocks
pub mod BlockTexts
pub mod Advice
pub mod Findings
pub mod ReportTexts
