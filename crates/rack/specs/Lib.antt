pub mod Model
pub mod Table
pub mod Filled
