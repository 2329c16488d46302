pub mod LineLemmas
pub mod Numbers
pub mod Pushes
pub mod Readings
pub mod Words
