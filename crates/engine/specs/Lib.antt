pub mod Reasons
pub mod Calls
pub mod Why
pub mod Parts
pub mod Files
