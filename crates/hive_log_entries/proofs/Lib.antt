pub mod Stops
pub mod Readings
pub mod Extended
