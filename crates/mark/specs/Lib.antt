pub mod Marks
pub mod Whole
pub mod Pending
pub mod Roots
