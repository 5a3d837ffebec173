pub mod Frames
pub mod Heads
pub mod Readings
