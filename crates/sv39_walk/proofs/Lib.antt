pub mod Sizes
pub mod Walks
pub mod Chains
pub mod Slots
pub mod Marked
pub mod Noted
pub mod WritableAlone
