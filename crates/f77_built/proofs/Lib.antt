pub mod Files
pub mod PastLemmas
pub mod Placed
pub mod UnitTurns
