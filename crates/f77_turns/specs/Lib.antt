pub mod Addresses
pub mod Composed
pub mod Ends
pub mod Frames
pub mod Kept
pub mod Ordinals
pub mod Steps
pub mod Turns
