pub mod Counted
pub mod CountLaws
pub mod Fits
pub mod Ordered
pub mod Reversed
pub mod Rotated
