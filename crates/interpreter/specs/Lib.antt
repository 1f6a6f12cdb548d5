pub mod Outcomes
pub mod Machines
pub mod Performing
pub mod Taking
pub mod Takes
