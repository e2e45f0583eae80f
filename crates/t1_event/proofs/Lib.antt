pub mod Accesses
pub mod LastWrite
pub mod OneStrand
