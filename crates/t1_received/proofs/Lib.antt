pub mod Lists
pub mod Sorts
pub mod Packets
pub mod Sends
