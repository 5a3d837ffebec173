pub mod Bins
pub mod Changes
pub mod Restores
pub mod Lending
pub mod Marks
pub mod Starts
pub mod Tiles
