mod Masks
mod Blanks
mod Kills
mod Histories
pub mod Machines
