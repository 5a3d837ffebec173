pub mod Steps
pub mod Mended
pub mod Laws
pub mod Opened
