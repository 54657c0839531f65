pub mod Changes
pub mod BlockBytes
pub mod Reading
pub mod BlockMaps
pub mod Stacks
pub mod LayeredBytes
pub mod SameBlocks
pub mod NextPages
