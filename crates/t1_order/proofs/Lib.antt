pub mod Joint
pub mod Listing
pub mod Places
pub mod Start
pub mod Steps
pub mod Tree
pub mod Unique
