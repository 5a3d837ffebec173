pub mod Cuts
pub mod Numbers
pub mod HeadTexts
pub mod Apart
pub mod Inputs
