pub mod Errors
pub mod Records
pub mod Lookups
pub mod Listings
