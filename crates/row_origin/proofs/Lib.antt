pub mod Blocks
pub mod Placed
pub mod Trails
pub mod LastOf
pub mod Read
pub mod Laid
pub mod Histories
