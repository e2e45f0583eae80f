pub mod Fields
pub mod Tests
pub mod Parsed
pub mod Places
pub mod Images
pub mod Gaps
pub mod Saved
pub mod Laws
