pub mod Blocks
pub mod Contents
pub mod Frames
pub mod FreshFiles
pub mod Chunks
