pub mod Lists
pub mod Book
pub mod Published
