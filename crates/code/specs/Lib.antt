pub mod Code
pub mod Reading
pub mod Filling
pub mod Solving
pub mod Theorems
pub mod Calls
pub mod Steps
pub mod Arrays
