pub mod Packing
pub mod Filing
