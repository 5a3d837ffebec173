pub mod Numbers
pub mod Sums
pub mod Layout
pub mod Judgements
