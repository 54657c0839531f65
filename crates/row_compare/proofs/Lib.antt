pub mod Among
pub mod Registers
