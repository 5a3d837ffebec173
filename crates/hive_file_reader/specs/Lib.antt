pub mod Hives
pub mod Readings
