-- The lemmas.
pub mod Members
