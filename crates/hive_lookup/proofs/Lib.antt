pub mod Unread
pub mod Searches
pub mod Ways
pub mod Listed
pub mod Distinct
pub mod Naming
