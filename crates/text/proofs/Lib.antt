pub mod Puttings
pub mod Decimals
pub mod Lengths
