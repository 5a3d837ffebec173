pub mod Lists
pub mod Ended
pub mod Kept
pub mod FileLookups
