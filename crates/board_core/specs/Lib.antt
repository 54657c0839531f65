pub mod Bags
pub mod Machine
pub mod Sound
