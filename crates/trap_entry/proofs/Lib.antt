pub mod Stacks
pub mod Legal
pub mod Undone
pub mod Rest
