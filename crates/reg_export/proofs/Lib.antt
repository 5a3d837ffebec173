pub mod UnitsBack
pub mod Lists
pub mod Moments
pub mod Texts
pub mod Joined
pub mod FieldTexts
pub mod Columns
pub mod Singles
mod Blocks
