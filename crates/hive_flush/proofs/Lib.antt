pub mod Readying
pub mod Going
pub mod TreeDecoder
pub mod Opened
pub mod Adopting
pub mod Replayed
pub mod Created
pub mod Legal
pub mod Ahead
pub mod Repairing
pub mod Telling
pub mod Times
mod Encoding
mod Editing
