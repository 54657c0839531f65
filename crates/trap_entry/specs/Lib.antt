pub mod Entries
pub mod Returns
pub mod Laws
