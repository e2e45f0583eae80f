pub mod Rings
pub mod Slots
pub mod Machine
pub mod Runs
pub mod Start
pub mod Pushes
pub mod Wakes
pub mod Waits
