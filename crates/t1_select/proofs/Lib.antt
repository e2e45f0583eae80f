pub mod Counts
pub mod Places
pub mod Moves
pub mod Fair
