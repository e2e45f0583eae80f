pub mod Heads
pub mod Joint
pub mod Merge
pub mod Next
pub mod Orderable
pub mod Unique
