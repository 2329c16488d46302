-- The definitions.
pub mod CellModes
pub mod Memory
pub mod Regions
pub mod Walker
