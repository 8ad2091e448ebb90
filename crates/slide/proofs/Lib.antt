pub mod Words
pub mod Closing
pub mod Entries
pub mod Trails
pub mod Controls
