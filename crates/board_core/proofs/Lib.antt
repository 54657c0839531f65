pub mod Bags
pub mod Machines
