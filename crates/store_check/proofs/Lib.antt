pub mod Hives
pub mod Found
pub mod Repairs
