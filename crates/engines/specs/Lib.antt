pub mod Records
pub mod Tracks
pub mod Files
pub mod Soundness
pub mod Paths
