pub mod Protection
pub mod Covering
pub mod Laws
