pub mod StoredTrees
pub mod Leaving
pub mod Moving
pub mod Planning
pub mod Deciding
pub mod Showing
pub mod Sums
