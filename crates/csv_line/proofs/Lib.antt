pub mod Machine
pub mod FirstLines
pub mod Readers
pub mod Trimmed
