pub mod Asked
pub mod Examples
pub mod Gathered
pub mod Spaced
