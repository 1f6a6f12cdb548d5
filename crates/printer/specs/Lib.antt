pub mod Ends
pub mod Printers
