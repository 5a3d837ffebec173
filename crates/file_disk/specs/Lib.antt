pub mod Records
pub mod Sound
