pub mod Blocks
pub mod Layers
pub mod NextPages
pub mod Memories
