pub mod BreachLemmas
pub mod LetterLemmas
