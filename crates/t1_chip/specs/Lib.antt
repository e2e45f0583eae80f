pub mod Rooms
pub mod Sets
pub mod Chips
