pub mod Numbers
pub mod Pairs
pub mod Spaces
pub mod Comparing
