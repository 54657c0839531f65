pub mod Fields
pub mod Table
pub mod Profiles
pub mod Registers
pub mod Values
pub mod Access
pub mod Legal
pub mod Laws
