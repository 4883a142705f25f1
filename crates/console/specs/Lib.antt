pub mod Making
pub mod Session
pub mod Transcript
