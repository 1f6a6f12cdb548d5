pub mod Tallying
pub mod Counting
