pub mod OpLemmas
pub mod SameLemmas
