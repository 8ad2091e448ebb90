pub mod Queue
pub mod Levels
pub mod Chains
