pub mod Errors
pub mod Siblings
pub mod Judgements
pub mod Walks
