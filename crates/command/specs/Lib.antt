pub mod Headers
pub mod Tables
pub mod Commands
