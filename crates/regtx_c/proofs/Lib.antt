pub mod HeldSteps
pub mod Values
pub mod Openings
pub mod WholeFiles
pub mod Numbered
pub mod Crossing
pub mod NewHives
pub mod Deletions
pub mod Ways
pub mod Parts
pub mod CursorAnswers
mod Recoveries
