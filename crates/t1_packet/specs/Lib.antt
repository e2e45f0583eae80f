pub mod Data
pub mod Ops
pub mod Caches
pub mod Packets
