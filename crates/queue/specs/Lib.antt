pub mod Filled
pub mod Entering
pub mod Reading
