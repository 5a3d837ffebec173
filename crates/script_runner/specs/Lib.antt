pub mod Requests
pub mod Faults
pub mod Scripts
pub mod Parting
pub mod Labels
pub mod Interpreters
pub mod Plays
