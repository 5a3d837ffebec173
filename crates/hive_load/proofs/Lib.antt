pub mod Sorting
pub mod Shuffled
pub mod Levels
pub mod Ends
pub mod Bound
pub mod Untiled
pub mod OneEncoding
