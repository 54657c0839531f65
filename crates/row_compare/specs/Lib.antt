pub mod Wanted
pub mod Sources
pub mod Memory
pub mod Csrs
pub mod Signals
pub mod Difference
pub mod Laws
