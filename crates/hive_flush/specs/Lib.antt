pub mod Decoders
pub mod NextBlocks
pub mod HiveStates
pub mod Renewals
pub mod Creation
pub mod Times
pub mod Replays
