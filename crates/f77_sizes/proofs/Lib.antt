pub mod Capping
pub mod Elements
