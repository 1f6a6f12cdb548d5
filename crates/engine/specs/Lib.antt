pub mod Sheets
pub mod Tallies
pub mod Engines
