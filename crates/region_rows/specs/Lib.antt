pub mod Memory
pub mod Regions
