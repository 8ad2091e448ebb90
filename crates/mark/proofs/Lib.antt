pub mod Stacks
pub mod Whole
pub mod Drains
pub mod Roots
pub mod Parted
pub mod Marking
