pub mod Kinds
pub mod Verdicts
pub mod Records
pub mod Thaw
pub mod Freeze
pub mod Parts
pub mod RoundTrips
pub mod Held
