pub mod Tracks
pub mod Allowed
pub mod Kept
pub mod Places
pub mod Example
pub mod Laws
