pub mod Rising
pub mod Marking
pub mod Sliding
pub mod Joining
pub mod Phases
pub mod Collecting
