pub mod Bits
pub mod Bounds
pub mod CellChanges
pub mod Images
pub mod Lookups
pub mod Marking
pub mod NewBin
pub mod OneTile
pub mod Outcomes
pub mod Reached
pub mod Region
pub mod Shown
pub mod Walk
mod SavedPages
mod CellFills
mod Blocks
