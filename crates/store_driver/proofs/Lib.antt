pub mod Later
pub mod OpeningLives
mod StepRuns
mod WaitRuns
