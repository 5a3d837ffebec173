pub mod LossTexts
pub mod Told
pub mod SinkLaws
pub mod Reports
pub mod OpenedHives
