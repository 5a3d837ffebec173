pub mod Digits
pub mod Pairs
pub mod Separators
pub mod LineWords
pub mod NumberText
pub mod HexText
pub mod TextWords
pub mod WrittenDatum
