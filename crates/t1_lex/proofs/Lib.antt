pub mod Cutting
pub mod Parts
pub mod Numbers
pub mod Spans
pub mod Order
