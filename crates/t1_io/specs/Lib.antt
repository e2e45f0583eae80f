pub mod Causes
pub mod Held
pub mod Memory
pub mod Plan
pub mod Store
pub mod Streams
pub mod Whole
