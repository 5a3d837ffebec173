pub mod Calls
pub mod Makings
pub mod Records
