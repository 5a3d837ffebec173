pub mod StoredTrees
pub mod Plans
pub mod Phases
pub mod States
pub mod Decisions
