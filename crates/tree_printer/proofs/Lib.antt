pub mod Paths
pub mod ValueLists
