mod Refusing
mod Fronts
pub mod Performed
pub mod Effects
