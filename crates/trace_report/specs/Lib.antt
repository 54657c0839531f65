pub mod Numerals
pub mod Origins
pub mod Report
