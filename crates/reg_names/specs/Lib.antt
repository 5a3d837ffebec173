pub mod Names
pub mod Printable
pub mod Units
