pub mod Sequences
pub mod Deletions
pub mod Refused
pub mod Answered
pub mod Removed
pub mod LegalPlans
