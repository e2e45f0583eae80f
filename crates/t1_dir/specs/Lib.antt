pub mod Directory
pub mod Marks
