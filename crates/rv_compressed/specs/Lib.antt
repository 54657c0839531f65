pub mod Formats
pub mod Encodings
pub mod Immediates
pub mod Patterns
pub mod Table
