pub mod Built
pub mod Choice
pub mod Leaf
pub mod Members
pub mod Names
pub mod Nodes
pub mod Triples
