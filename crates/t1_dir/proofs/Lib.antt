pub mod Rows
pub mod MarkLaws
