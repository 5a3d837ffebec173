pub mod Statements
pub mod Outcomes
pub mod Applied
pub mod Checks
