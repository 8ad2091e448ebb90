pub mod Text
pub mod Most
pub mod First
pub mod Reports
pub mod Nexts
pub mod Parts
pub mod Streams
pub mod Sums
