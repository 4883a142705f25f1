pub mod Fields
pub mod Tests
pub mod Codewords
pub mod Repairs
pub mod Refusals
pub mod Rows
