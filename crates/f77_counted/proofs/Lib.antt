pub mod Counting
pub mod Statements
pub mod Subscripts
