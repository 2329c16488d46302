pub mod PlacingLemmas
pub mod StorageLemmas
