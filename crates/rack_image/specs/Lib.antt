pub mod Image
pub mod Lent
