pub mod Pages
pub mod Runs
pub mod TokenLemmas
pub mod ImageLemmas
