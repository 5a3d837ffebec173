pub mod Later
pub mod Openings
pub mod Waits
pub mod Work
