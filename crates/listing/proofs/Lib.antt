pub mod Lengths
pub mod Listings
pub mod OneListing
pub mod Examples
