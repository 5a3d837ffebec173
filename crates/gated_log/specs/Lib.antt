pub mod GatedLog
