pub mod Ends
pub mod Row
pub mod Queue
pub mod QueueRule
