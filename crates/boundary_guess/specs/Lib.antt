pub mod Pieces
pub mod Guesses
pub mod Truth
