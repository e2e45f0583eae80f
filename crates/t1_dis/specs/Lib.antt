pub mod Hex
pub mod Laws
pub mod Names
pub mod Operands
pub mod Room
pub mod Texts
