pub mod Marvin32
