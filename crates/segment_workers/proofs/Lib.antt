pub mod Accounts
pub mod Chained
pub mod Finding
pub mod Gathering
pub mod Seats
pub mod Leaving
pub mod Turns
pub mod Agreeing
