pub mod Fields
pub mod Rows
pub mod AluTable
pub mod Forms
pub mod MemoryTable
pub mod Words
