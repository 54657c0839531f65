pub mod Headers
pub mod Segments
pub mod Image
pub mod Loading
pub mod Laws
