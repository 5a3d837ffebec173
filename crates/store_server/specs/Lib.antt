pub mod Served
pub mod Following
pub mod Steps
pub mod OwnLines
pub mod Visits
pub mod Generations
