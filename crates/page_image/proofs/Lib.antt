pub mod Filling
pub mod Stored
pub mod PageBytes
pub mod Entries
pub mod Numbers
pub mod NextPages
pub mod NearPages
