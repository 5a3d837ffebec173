pub mod Outcomes
pub mod Recoveries
pub mod ReportTexts
