pub mod Others
pub mod Retired
pub mod Own
pub mod Rows
pub mod Profiles
pub mod Columns
