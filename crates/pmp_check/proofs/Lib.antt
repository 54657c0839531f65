pub mod Ones
pub mod Covering
pub mod Deciding
pub mod Granting
pub mod Parts
