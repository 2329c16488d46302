pub mod Clear
pub mod IfLemmas
pub mod Induction
pub mod RowLemmas
