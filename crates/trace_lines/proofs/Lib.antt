pub mod Parts
pub mod Cursors
pub mod Feeds
pub mod Chunks
pub mod Marks
pub mod Fronts
pub mod CallLemmas
