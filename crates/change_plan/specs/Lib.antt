pub mod Edits
pub mod Plans
pub mod Removals
