pub mod Undo
pub mod Retreat
