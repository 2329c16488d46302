pub mod Counts
pub mod Decimals
pub mod PowerLaws
pub mod Quotients
pub mod Reductions
pub mod Wrapping
