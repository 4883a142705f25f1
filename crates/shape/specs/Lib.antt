pub mod Layout
pub mod Outages
pub mod Listing
