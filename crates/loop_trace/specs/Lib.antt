-- The definitions that the contracts cite.
pub mod Cells
pub mod Marks
pub mod Places
pub mod Told
