pub mod Fields
pub mod Operands
pub mod Patterns
pub mod Table
pub mod Widths
