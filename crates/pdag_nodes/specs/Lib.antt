pub mod Nodes
pub mod Regions
pub mod Steps
pub mod Turns
pub mod Windows
