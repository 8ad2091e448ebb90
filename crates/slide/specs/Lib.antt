pub mod Closed
pub mod Slides
