pub mod Mnemonics
pub mod Names
pub mod Options
pub mod Shapes
