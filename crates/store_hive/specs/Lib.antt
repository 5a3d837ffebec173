pub mod RecoveredHives
pub mod RefusedHives
pub mod Replays
pub mod ReplayLaws
pub mod LedTrees
