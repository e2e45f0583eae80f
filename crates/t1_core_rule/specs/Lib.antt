pub mod Histories
pub mod Parts
pub mod Outs
pub mod Steady
pub mod Fitting
pub mod Laws
