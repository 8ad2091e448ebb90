pub mod Schedules
pub mod Calling
pub mod Turning
