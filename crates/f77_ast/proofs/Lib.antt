pub mod EntityLemmas
pub mod Loops
pub mod Refusals
