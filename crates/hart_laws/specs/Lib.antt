pub mod Rows
pub mod Reservations
pub mod Profiles
pub mod Columns
