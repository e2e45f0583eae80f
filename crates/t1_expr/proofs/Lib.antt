pub mod Growing
pub mod Stacks
