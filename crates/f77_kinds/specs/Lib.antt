pub mod Breaches
pub mod Breaks
pub mod FirstBreaks
pub mod Found
pub mod Kinds
pub mod Letters
pub mod Named
pub mod Statements
