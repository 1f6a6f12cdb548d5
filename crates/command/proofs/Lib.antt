pub mod Decoded
pub mod Ends
