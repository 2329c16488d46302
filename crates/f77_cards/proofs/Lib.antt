pub mod Breaks
pub mod ColumnLemmas
pub mod Grouping
pub mod Labels
pub mod LineLemmas
pub mod Order
pub mod RisingLines
pub mod Scans
