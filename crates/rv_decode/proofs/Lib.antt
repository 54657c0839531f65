pub mod Apart
pub mod ByOpcode
pub mod Even
