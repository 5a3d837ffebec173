mod Slots
mod Claimed
mod Kept
mod TableChanges
mod Holding
mod SlotsInTurn
mod Stored
mod Predictions
mod ShortOnes
mod TimesAsRead
mod Looks
mod Views
pub mod Outcomes
mod OtherTrees
