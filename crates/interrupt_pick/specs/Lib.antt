pub mod Interrupts
pub mod Laws
