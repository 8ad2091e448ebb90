pub mod Answers
pub mod Tracing
