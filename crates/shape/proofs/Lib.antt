pub mod Among
pub mod Bounds
pub mod Counts
pub mod Digits
pub mod Every
pub mod Listed
pub mod OutageLists
pub mod Rising
