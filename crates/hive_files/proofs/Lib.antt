pub mod Frames
pub mod Founding
pub mod Anew
pub mod Chunks
