pub mod Counts
pub mod Laws
pub mod Results
pub mod Rotations
