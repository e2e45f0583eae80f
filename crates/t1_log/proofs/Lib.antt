pub mod Blocks
pub mod Digits
pub mod Firsts
pub mod Lengths
pub mod Printing
