-- The four cases of an address, and that the numbers fix the answers.
mod Naming
pub mod Inverses
