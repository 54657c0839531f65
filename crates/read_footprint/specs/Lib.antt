pub mod Bits
pub mod Footprints
pub mod Sets
pub mod NotedBytes
pub mod LowMemory
pub mod Ranges
