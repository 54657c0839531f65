pub mod Bits
pub mod Taken
pub mod Entered
pub mod Firsts
