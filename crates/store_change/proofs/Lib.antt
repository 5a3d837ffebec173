pub mod Transacting
pub mod Waiting
pub mod Steps
pub mod NamedTrees
pub mod Accepted
mod Told
