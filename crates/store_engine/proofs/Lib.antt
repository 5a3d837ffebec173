pub mod Coming
pub mod Finishing
