pub mod More
pub mod Units
pub mod Needs
pub mod Shapes
