pub mod CauseLemmas
pub mod CommandLemmas
pub mod PrepareLemmas
pub mod ReadLemmas
pub mod RunLemmas
pub mod ShowLemmas
pub mod TopLemmas
