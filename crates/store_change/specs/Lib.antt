pub mod Commits
pub mod Reports
