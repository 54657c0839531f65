pub mod Fields
pub mod Next
pub mod SharedLines
pub mod Readers
