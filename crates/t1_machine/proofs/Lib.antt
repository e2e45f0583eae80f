pub mod Ends
pub mod Bits
pub mod Askers
pub mod Posts
pub mod Steps
pub mod Starts
pub mod Unchanged
pub mod Wakes
