pub mod Sectors
pub mod Folded
