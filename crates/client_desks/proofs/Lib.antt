pub mod Deliveries
pub mod Handing
pub mod LineFeeds
pub mod Tables
pub mod Visits
