pub mod Heard
pub mod Slots
pub mod Scripts
pub mod Interpreters
