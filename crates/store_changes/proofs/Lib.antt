pub mod Numbers
pub mod Operations
pub mod Held
pub mod Told
pub mod Refusals
