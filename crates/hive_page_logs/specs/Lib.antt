pub mod PageLogs
pub mod Choices
pub mod RecoveredPages
pub mod FaultTexts
