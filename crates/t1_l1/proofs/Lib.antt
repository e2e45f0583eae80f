pub mod Sums
pub mod Scan
pub mod Merged
pub mod Shown
pub mod Pointers
