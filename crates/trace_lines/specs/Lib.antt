pub mod Lines
pub mod Pieces
pub mod Calls
pub mod Nexts
pub mod Cursors
pub mod Takers
pub mod Errors
