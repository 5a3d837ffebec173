pub mod TreeTexts
pub mod Printed
