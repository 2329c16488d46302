pub mod Takes
pub mod Emits
pub mod Slices
pub mod TableLemmas
pub mod ReadLemmas
