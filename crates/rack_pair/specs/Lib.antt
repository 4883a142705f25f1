pub mod Pair
pub mod LentRooms
