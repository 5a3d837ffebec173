pub mod Taken
pub mod LegalPlans
pub mod Finished
pub mod Once
pub mod Tried
