pub mod Exprs
pub mod Readings
pub mod Symbols
