pub mod HiveLists
pub mod Rules
pub mod Bridge
mod Room
mod Outcomes
mod Accepting
mod Beginning
mod Handing
mod Ending
mod Stepping
mod Advancing
mod FlushesEnd
mod Flushing
pub mod StoreReads
mod Running
mod Receipts
mod Folding
