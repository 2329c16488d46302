pub mod LeafCounts
pub mod LimitLemmas
