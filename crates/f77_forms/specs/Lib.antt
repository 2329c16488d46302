pub mod Form
pub mod Depth
