pub mod Requests
pub mod Caches
pub mod Laws
