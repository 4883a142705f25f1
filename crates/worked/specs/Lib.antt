pub mod Racks
pub mod Table
