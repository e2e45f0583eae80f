pub mod Array
pub mod Overlay
