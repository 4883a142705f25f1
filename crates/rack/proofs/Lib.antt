pub mod Models
pub mod Tables
pub mod Steps
pub mod Ends
