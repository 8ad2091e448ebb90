pub mod Answering
pub mod Promising
pub mod Stepping
pub mod Undoing
