pub mod Assembling
pub mod Chunks
pub mod Counting
pub mod LineCuts
pub mod Places
pub mod Savable
pub mod Totals
