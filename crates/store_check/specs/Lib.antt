pub mod Advice
pub mod StoreTexts
pub mod Reports
