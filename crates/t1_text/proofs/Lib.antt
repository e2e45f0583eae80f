pub mod InBytes
