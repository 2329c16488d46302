pub mod DoubleLemmas
pub mod KnownLemmas
pub mod RunLemmas
pub mod Turns
pub mod UnitLemmas
