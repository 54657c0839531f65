pub mod Shows
pub mod Lines
pub mod States
pub mod Images
pub mod Laws
