pub mod Units
pub mod Commits
pub mod Trees
pub mod Operations
pub mod CommitLists
pub mod ListRoom
