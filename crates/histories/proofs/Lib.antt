pub mod Chains
pub mod Adding
pub mod Asked
pub mod Leading
pub mod Lives
mod ProgramRuns
