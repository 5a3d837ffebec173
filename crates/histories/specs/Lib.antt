pub mod Points
pub mod Histories
pub mod Asked
pub mod Permissions
pub mod Leaving
pub mod ProgramRuns
pub mod Book
