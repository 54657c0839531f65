pub mod Bytes
pub mod Runs
pub mod Tokens
pub mod Fronts
pub mod Steps
pub mod Image
pub mod Taking
