pub mod Accumulations
pub mod Chains
pub mod Exprs
pub mod Statements
pub mod Units
