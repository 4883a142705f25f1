pub mod Opening
pub mod Reading
pub mod Continuing
pub mod Printing
