pub mod CommonTurns
pub mod ItemLemmas
pub mod ItemTurns
