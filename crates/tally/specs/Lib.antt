pub mod Figures
pub mod Counts
pub mod Totals
pub mod Parts
