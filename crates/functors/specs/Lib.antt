pub mod Functors
