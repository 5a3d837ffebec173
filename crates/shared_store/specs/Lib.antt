pub mod Accounts
pub mod Serving
