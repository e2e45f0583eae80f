pub mod Queues
pub mod Rooms
pub mod Acts
pub mod Buffers
pub mod Dests
pub mod Ends
