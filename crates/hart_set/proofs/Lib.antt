pub mod Filled
pub mod Places
pub mod Steps
pub mod SetLaws
