pub mod Text
pub mod Number
pub mod Tells
pub mod Parts
