pub mod Ebcdic
pub mod Texts
