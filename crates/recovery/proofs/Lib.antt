pub mod Replays
mod Outcomes
mod Together
mod Scanned
mod ReplaySteps
pub mod NumberedChanges
mod Hives
mod Openings
mod Refused
mod Repairs
mod Crashes
pub mod ListEntries
pub mod FreshTree
mod Creations
mod Beginnings
mod Counting
