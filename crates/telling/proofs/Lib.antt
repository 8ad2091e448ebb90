pub mod Numbers
pub mod Cells
pub mod Firsts
pub mod Rooting
pub mod Answering
pub mod Tellings
pub mod OneTelling
pub mod Examples
