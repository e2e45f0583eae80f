pub mod FirstKills
pub mod Caches
