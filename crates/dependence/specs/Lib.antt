-- The definitions that the contracts cite.
pub mod Conflicts
pub mod Executions
pub mod Laws
pub mod Regions
pub mod Verdicts
