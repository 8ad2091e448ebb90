pub mod Refers
pub mod Clean
pub mod Areas
pub mod Bridge
pub mod Ranges
pub mod Same
