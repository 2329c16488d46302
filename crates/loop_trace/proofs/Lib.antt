-- The lemmas.
pub mod Books
pub mod Known
pub mod OneRead
pub mod OneWrite
pub mod Places
pub mod Steps
pub mod Verdicts
