pub mod Followed
pub mod Reports
