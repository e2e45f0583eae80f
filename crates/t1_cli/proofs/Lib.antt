pub mod Limits
pub mod Reports
pub mod Inputs
pub mod Endings
pub mod Verdicts
pub mod Judging
pub mod Headlines
