pub mod Trails
pub mod Sources
pub mod Origins
pub mod Places
pub mod Last
pub mod DifferingRows
pub mod Histories
