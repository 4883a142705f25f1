pub mod Pairs
pub mod PairImages
pub mod LentRooms
