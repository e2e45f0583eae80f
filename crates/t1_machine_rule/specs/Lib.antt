pub mod Kept
pub mod Parts
pub mod Covered
pub mod SoFar
pub mod Stands
pub mod Ends
pub mod Laws
pub mod Words
