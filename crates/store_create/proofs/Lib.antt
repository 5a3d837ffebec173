pub mod Fresh
pub mod Takings
pub mod Fronts
pub mod Creations
pub mod Upgrades
