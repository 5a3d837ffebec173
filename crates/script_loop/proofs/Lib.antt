mod LineEnds
pub mod Texts
pub mod Reading
pub mod Running
pub mod NewRuns
pub mod Views
