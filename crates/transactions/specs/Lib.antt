pub mod CommitLogs
pub mod Histories
pub mod Tables
pub mod Codes
pub mod Entries
pub mod Stores
pub mod Prepared
