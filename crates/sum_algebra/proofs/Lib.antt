pub mod Loops
pub mod Statements
pub mod Telling
