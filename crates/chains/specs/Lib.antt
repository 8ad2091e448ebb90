pub mod Notes
pub mod Noting
