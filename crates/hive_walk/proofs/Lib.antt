pub mod Order
pub mod NodeNames
pub mod Judged
pub mod Faults
pub mod Walked
pub mod ShortPaths
