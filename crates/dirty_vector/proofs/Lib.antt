pub mod Words
pub mod Bytes
pub mod Sets
pub mod Firsts
mod Alike
