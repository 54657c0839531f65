pub mod Sets
pub mod Calls
pub mod Laws
