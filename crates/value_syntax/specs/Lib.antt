pub mod TypeWords
pub mod Data
pub mod Steps
pub mod Printed
