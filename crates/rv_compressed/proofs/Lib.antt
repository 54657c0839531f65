mod Apart
pub mod Groups
