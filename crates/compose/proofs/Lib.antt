pub mod Places
pub mod Pieces
