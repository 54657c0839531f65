pub mod Bits
pub mod Profiles
pub mod Places
pub mod Legal
pub mod Writes
pub mod Protection
pub mod LegalTests
