pub mod Forms
pub mod LeafLemmas
pub mod DepthLemmas
pub mod Turns
