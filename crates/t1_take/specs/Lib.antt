pub mod Limits
pub mod Taken
pub mod Digits
pub mod Items
pub mod Fields
pub mod Image
pub mod Commits
pub mod WellFormed
