pub mod LogEncoding
pub mod WholeLog
pub mod FileContents
