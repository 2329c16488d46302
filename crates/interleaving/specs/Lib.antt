-- The definitions that the laws cite.
pub mod BlockLaws
pub mod Blocks
pub mod Interleaving
pub mod ListStores
pub mod Loops
pub mod Machine
pub mod Modes
pub mod OwnCells
pub mod Passing
pub mod Picks
pub mod Prefixes
pub mod Region
pub mod Solo
pub mod Traces
pub mod Turning
