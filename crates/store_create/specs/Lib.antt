pub mod Creations
pub mod Imports
pub mod Codes
pub mod Inside
pub mod Upgrades
