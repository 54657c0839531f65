pub mod Flags
pub mod Formats
pub mod Rounding
pub mod Sticky
pub mod Cuts
pub mod Laws
