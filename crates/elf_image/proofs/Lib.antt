pub mod Numbers
pub mod Orders
pub mod Overlaps
pub mod Bytes
pub mod Checks
pub mod Underway
pub mod Loadings
