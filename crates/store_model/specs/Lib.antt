pub mod Ends
pub mod Transactions
pub mod Machine
pub mod Shapes
pub mod Acts
pub mod Steps
pub mod Invariant
pub mod Codes
