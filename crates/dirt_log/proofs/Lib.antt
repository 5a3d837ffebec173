pub mod PageBytes
pub mod Whole
pub mod Replaced
pub mod Again
pub mod Needed
