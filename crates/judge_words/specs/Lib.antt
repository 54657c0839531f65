pub mod Commands
pub mod Cores
pub mod Job
pub mod Lists
pub mod Profiles
pub mod Settings
pub mod Values
