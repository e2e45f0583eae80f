pub mod Hex
pub mod Lines
pub mod Texts
pub mod Log
pub mod Brief
