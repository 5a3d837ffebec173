pub mod Devices
pub mod LabStates
pub mod Crashes
pub mod Experiments
pub mod Runs
