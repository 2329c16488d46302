pub mod DistinctLemmas
pub mod FoundLemmas
pub mod GrowthLemmas
pub mod RefusalLemmas
pub mod UsedLemmas
