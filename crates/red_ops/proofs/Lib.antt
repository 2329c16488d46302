pub mod Orders
pub mod Commits
