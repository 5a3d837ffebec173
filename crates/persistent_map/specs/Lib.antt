pub mod Orders
pub mod Listings
pub mod ListingDecreases
pub mod Children
pub mod Writes
pub mod Keyed
