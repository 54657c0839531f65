pub mod Views
pub mod Rule
pub mod Plays
pub mod Points
pub mod Steps
pub mod Seats
