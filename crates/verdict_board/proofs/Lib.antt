pub mod Gathered
pub mod Mirrors
pub mod Events
pub mod Wholes
pub mod Allowed
pub mod Held
pub mod Closing
