pub mod Operations
pub mod Blocks
pub mod Extremes
