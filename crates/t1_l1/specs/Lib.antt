pub mod Layouts
pub mod Cache
pub mod Arrays
pub mod Laws
