pub mod Breaks
pub mod Mending
pub mod Restarts
