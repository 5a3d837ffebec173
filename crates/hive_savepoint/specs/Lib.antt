pub mod SavedPages
pub mod Savepoints
pub mod Puts
pub mod Lending
