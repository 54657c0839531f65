pub mod Places
pub mod Translation
pub mod Accesses
pub mod Reads
pub mod Laws
