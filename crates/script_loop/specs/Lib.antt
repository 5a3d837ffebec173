pub mod Lines
pub mod FirstLines
pub mod Ends
pub mod Turns
pub mod Runs
pub mod NewStores
