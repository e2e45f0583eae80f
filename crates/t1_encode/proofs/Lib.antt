pub mod Parts
pub mod Bits
pub mod Pictures
pub mod Branches
pub mod Control
pub mod Accesses
pub mod Ranges
pub mod Encoding
