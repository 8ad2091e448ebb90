pub mod Text
pub mod Lists
pub mod Lines
