pub mod Words
pub mod Admitting
