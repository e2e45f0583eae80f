pub mod Copies
pub mod FlatMemory
pub mod Laws
pub mod Sound
pub mod Writes
