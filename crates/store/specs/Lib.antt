pub mod Entries
pub mod Stores
pub mod Contents
pub mod Laws
